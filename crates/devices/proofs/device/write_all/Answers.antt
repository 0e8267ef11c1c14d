use Rattle.std.proofs.Common.{◌≡◌, List, ◌++◌, length, ℕ, ◌-◌, ◌≤◌, take, drop, arith, rules}
use Rattle.std.proofs.KnownBytes.{Appends-trans}
use Rattle.std.proofs.lemmas.Grind.{common_steps}
use Rattle.devices.proofs.device.write_all.Goals as goal

split_more : (piece front rest : List ℕ) (n : ℕ) → piece ≡ front ++ rest → n ≤ length rest →
    piece ≡ (front ++ take n rest) ++ take (length rest - n) (drop n rest)
split_more piece front rest n e h = grind (arith, common_steps)

pub loop-rest-preserved : goal.loop-rest-preserved
loop-rest-preserved g c =
    let w = c.loop-rest.invariant.written in
    record {
      written = (
        w.0 ++ take c.in_ok-count.count c.loop-rest.rest.now,
        split_more _ _ _ _ w.1 c.in_ok-count.ensures.bound,
        Appends-trans _ _ _ _ _ w.2 c.in_ok-count.ensures.bytes,
      );
      broken = search rules;
    }
