-- `rotation::put_single` meets its contract: the two words are put apart.
use Rattle.std.proofs.Common.{◌∙◌, ◌/◌, w64, rules, arith}
use Rattle.std.proofs.lemmas.Int.{to_z-of_z}
use native.Mathlib.Nat.{add-zero}
use Rattle.words.specs.Words.{word}
use Rattle.words.proofs.Writing.{two_put}
use Rattle.rotation.specs.Rotation.{cosine_at}
use Rattle.rotation.proofs.put_single.Goals as goal

pub returns : goal.returns
returns c =
    let a = c.args in
    let r = rw (to_z-of_z w64 (cosine_at a.n a.w.now (a.n / 2)) (search rules)) at c.rotate_middle-middle.ensures in
    record {
      both = two_put (omega (arith, c.requires.fits)) (λ e. absurd (omega (arith, c.requires.some)))
          (rw add-zero (to_z-of_z w64 (word a.w.now a.n) (search rules)))
          (to_z-of_z w64 c.rotate_middle-middle.result.value (search rules) ∙ r.middle);
      tallied = omega (arith, r, c.add.ensures);
    }
