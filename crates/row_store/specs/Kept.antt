-- Of the code: invariants and steps; no promise rests on these words.
-- The digest of the row text that is kept.
use Rattle.std.specs.Prelude.{◌≡◌, List, Option, IfSome, String, string_bytes}
use Rattle.std.specs.declared.alloc.Global.{Global}
use Rattle.catalogue.specs.Shapes.{TableShape}
use Rattle.values.specs.Database.{Database}
use Rattle.row_text.specs.Texts.{digest, row_text}

-- what is kept, if anything is, is the digest of the row text of these rows
abbrev pub IsDigestKept : List TableShape → Database → Option (String Global) → Type 0
IsDigestKept tables db kept = IfSome kept (λ t. string_bytes t ≡ digest (row_text tables db))
