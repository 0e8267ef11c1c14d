use Rattle.std.proofs.Common.{◌≡◌, ℕ, List, Bool, Option, ◌∙◌, ◌<◌, [], ap, append-nil, false, true, length, refl, rules, arith}
use Rattle.std.proofs.KnownBytes.{Consumes-kept}
use Rattle.std.proofs.lemmas.Bool.{both_ways}
use Rattle.std.proofs.lemmas.List.{nil_from_length}
use Rattle.devices.specs.LineReader.{came, has_ended, left_in, position_of, IsFeedEnd}
use Rattle.devices.specs.Lines.{has_newline}
use Rattle.devices.proofs.Passing.{Passes-at_end}
use Rattle.devices.proofs.Pieces.{came_some, grown_longer, grown_taken, grown_whole, more_taken, piece_as}
use Rattle.devices.proofs.Positions.{last_taken, line_lost, line_taken, numbered_of_line, piece_lost}
use Rattle.devices.proofs.line_reader.LineReader.take_line.Goals as goal

pub returns-then-is_err-clause-lost : goal.returns-then-is_err-clause-lost
returns-then-is_err-clause-lost g c =
    line_lost _ _ _ (position_of c.args.self.now) (position_of c.fill.new.self) _ c.pieces.invariant.line (search rules) (search rules) (search rules) (search rules) c.pieces.invariant.taken c.fill.ensures.bytes

pub returns-then-is_empty-clause-end : goal.returns-then-is_empty-clause-end
returns-then-is_empty-clause-end g c = λ _.
    let short : length c.pieces.line.items ≡ 0 = search rules in
    let none : c.pieces.line.items ≡ [] = nil_from_length _ short in
    Passes-at_end _ _ _ c.pieces.line.items (none, refl)
    (Consumes-kept _ _ _ c.pieces.line.items c.pieces.invariant.taken c.fill.ensures.bytes) (search rules)

pub returns-then-self-clause-line : goal.returns-then-self-clause-line
returns-then-self-clause-line g c =
    last_taken _ _ _ (position_of c.args.self.now) (position_of c.fill.new.self) _ c.pieces.invariant.line (search rules) (search rules) (search rules) c.pieces.invariant.taken
    c.fill.ensures.bytes (search rules) (search rules)

pub returns-then-self-clause-numbered : goal.returns-then-self-clause-numbered
returns-then-self-clause-numbered g c =
    numbered_of_line _ _ (position_of c.args.self.now) (position_of c.fill.new.self) true _ (search rules)
    (last_taken _ _ _ (position_of c.args.self.now) (position_of c.fill.new.self) _ c.pieces.invariant.line (search rules) (search rules) (search rules) c.pieces.invariant.taken
    c.fill.ensures.bytes (search rules) (search rules))

pub returns-in-Ok-true-clause-line : goal.returns-in-Ok-true-clause-line
returns-in-Ok-true-clause-line g c =
    line_taken _ _ (position_of c.args.self.now) _ _ _ (grown_whole true _ _ _ _ c.pieces.invariant.line (piece_as _ true _ _ _ _ c.in-Ok-true.field-0-test c.in-Ok-true.ensures.piece))
    (grown_taken _ _ _ (left_in g.S.Source.left c.fill.new.self) (left_in g.S.Source.left c.take_piece.new.self) (came c.fill.new.self) (came c.take_piece.new.self) _ _
    c.pieces.invariant.taken c.fill.ensures.bytes (search rules) (piece_as _ true _ _ _ _ c.in-Ok-true.field-0-test c.in-Ok-true.ensures.piece)) (search rules) (search rules)

pub returns-in-Ok-true-clause-numbered : goal.returns-in-Ok-true-clause-numbered
returns-in-Ok-true-clause-numbered g c =
    numbered_of_line _ _ (position_of c.args.self.now) (position_of c.take_piece.new.self) false _ (search rules)
    (returns-in-Ok-true-clause-line g c)

pub pieces-preserved : goal.pieces-preserved
pieces-preserved g c =
    let piece = piece_as _ false (came c.fill.new.self) (came c.take_piece.new.self) c.pieces.line.items c.take_piece.new.line.items c.in-Ok-false.field-0-test c.in-Ok-false.ensures.piece in
    let longer : length c.pieces.line.items < length c.take_piece.new.line.items = grown_longer _ _ _ _ piece in
    record {
      same = search rules;
      stays = search rules;
      taken = rw append-nil at (grown_taken _ _ _ (left_in g.S.Source.left c.fill.new.self) (left_in g.S.Source.left c.take_piece.new.self) (came c.fill.new.self) (came c.take_piece.new.self) _ _
          c.pieces.invariant.taken c.fill.ensures.bytes (search rules) (piece_as _ false _ _ _ _ c.in-Ok-false.field-0-test c.in-Ok-false.ensures.piece));
      line = grown_whole false _ _ _ _ c.pieces.invariant.line (piece_as _ false _ _ _ _ c.in-Ok-false.field-0-test c.in-Ok-false.ensures.piece);
      newlines = search rules;
      none = λ e. absurd (omega arith);
      some = search rules;
      late = λ has.
          let before = (c.pieces.invariant.late has).1 in
          let kept = c.fill.ensures.late (came_some c.pieces.self.buffer c.pieces.self.start c.pieces.self.end before) in
          absurd (both_ways _ (piece.all refl).0 (ap has_newline kept.2 ∙ before));
      fails = search rules;
      goes_on = λ h. search rules;
    }

pub pieces-smaller : goal.pieces-smaller
pieces-smaller g c =
    let longer : length c.pieces.line.items < length c.take_piece.new.line.items = grown_longer _ _ _ _ (piece_as _ false _ _ _ _ c.in-Ok-false.field-0-test c.in-Ok-false.ensures.piece) in
    search rules

pub returns-in-Err-clause-lost : goal.returns-in-Err-clause-lost
returns-in-Err-clause-lost g c =
    let lost = c.in-Err.ensures.lost in
    piece_lost _ _ (position_of c.args.self.now) (position_of c.take_piece.new.self) _ lost.piece c.pieces.invariant.line lost.whole lost.some (search rules) (search rules)
    (more_taken _ _ (left_in g.S.Source.left c.fill.new.self) (left_in g.S.Source.left c.take_piece.new.self) (came c.fill.new.self) (came c.take_piece.new.self) _ _
    c.pieces.invariant.taken c.fill.ensures.bytes (search rules) lost.taken) (search rules)

-- a feed that was read on has not ended
stays : (before now : Bool) (left : Option (List ℕ)) → (before ≡ false → now ≡ true → IsFeedEnd false left) → before ≡ false → now ≡ false
stays before now left h began = elim now as (λ b. (b ≡ true → IsFeedEnd false left) → b ≡ false) [
  | true ↦ λ k. absurd (both_ways false refl (k refl).0)
  | false ↦ λ k. refl
] (h began)

pub returns-in-Ok-true-clause-tells : goal.returns-in-Ok-true-clause-tells
returns-in-Ok-true-clause-tells g c =
    let goes_on : has_ended c.args.self.now ≡ false → has_ended c.take_piece.new.self ≡ false = λ began. search rules in
    record {
      place = tt;
      spent = λ e. absurd (both_ways false refl e);
      fails = search rules;
      end = λ began ended. absurd (both_ways _ (goes_on began) ended);
    }

pub returns-in-Err-clause-tells : goal.returns-in-Err-clause-tells
returns-in-Err-clause-tells g c =
    let goes_on : has_ended c.args.self.now ≡ false → has_ended c.take_piece.new.self ≡ false = λ began. search rules in
    record {
      place = search rules;
      spent = λ e. absurd (both_ways false refl e);
      fails = search rules;
      end = λ began ended. absurd (both_ways _ (goes_on began) ended);
    }
