-- Requests whose footprint reconnaissance found.
use Rattle.std.proofs.Common.{◌≡◌, List, true, false, refl, sym, ap, ◌∙◌, subst}
use Rattle.values.specs.Database.{Database}
use Rattle.catalogue.specs.Shapes.{TableShape}
use Rattle.values.specs.declared.value.Value.{Value}
use Rattle.proclang_types.specs.Procedures.{proc_syntax}
use Rattle.proclang_types.specs.Syntax.{FootprintSyntax, StmtSyntax, declared_by, found_by_recon, is_recon}
use Rattle.requests.specs.Requests.{Call}
use Rattle.meaning.specs.Entries.{EntryShape, Footing, finds, meaning, stale}
use Rattle.meaning.specs.Frame.{Agree}
use Rattle.meaning.specs.Reconnaissance.{found_entry, found_footprint, reconnaissance_reply, HoldsAsFound}
use Rattle.sequencer.specs.Entries.{footing_on, prepared}

finds_on : (db : Database) (call : Call) (footprint : FootprintSyntax) → is_recon footprint ≡ true →
    footing_on db call footprint ≡ finds (found_footprint call.proc.tables (proc_syntax call.proc).body call.args db)
finds_on db call (declared_by entries) h = let w : false ≡ true = h in absurd cc
finds_on db call found_by_recon h = refl

module _ (db : Database) (call : Call) (found : is_recon (proc_syntax call.proc).footprint ≡ true) where
  abbrev entry : EntryShape
  entry = found_entry call.proc.tables (proc_syntax call.proc).body call.args db

  is_found : prepared db call ≡ entry
  is_found = ap (λ (f : Footing). record { tables = call.proc.tables; body = (proc_syntax call.proc).body; arguments = call.args; footing = f }) (finds_on db call (proc_syntax call.proc).footprint found)

  module _ (holds : (tables : List TableShape) (body : List StmtSyntax) (arguments : List Value) (read end : Database) → Agree (found_entry tables body arguments read) read end → HoldsAsFound tables body arguments read end)
      (end : Database) (agrees : Agree (prepared db call) db end) where
    held : HoldsAsFound call.proc.tables (proc_syntax call.proc).body call.args db end
    held = holds call.proc.tables (proc_syntax call.proc).body call.args db end (subst (λ (e : EntryShape). Agree e db end) is_found agrees)

    reply_is : (meaning (prepared db call) end).0 ≡ (meaning entry end).0
    reply_is = ap (λ (e : EntryShape). (meaning e end).0) is_found

    pub ends_as_found : (meaning (prepared db call) end).0 ≡ reconnaissance_reply call.proc.tables (proc_syntax call.proc).body call.args db
    ends_as_found = reply_is ∙ held.outcome

    pub is_not_stale : ¬ ((meaning (prepared db call) end).0 ≡ stale)
    is_not_stale s = held.not_stale (sym reply_is ∙ s)
