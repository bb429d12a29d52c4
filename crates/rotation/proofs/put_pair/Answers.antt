-- `rotation::put_pair` meets its contract: what it reads may be rotated.
use Rattle.std.proofs.Common.{◌∙◌, w64, rules, arith}
use Rattle.std.proofs.lemmas.Int.{to_z-of_z}
use Rattle.whole.proofs.Size.{within_size}
use Rattle.words.proofs.Writing.{two_put}
use Rattle.ffct.proofs.Sizes.{entry_within}
use Rattle.rotation.specs.Rotation.{cosine_at, sine_at}
use Rattle.rotation.proofs.put_pair.Goals as goal

pub rotate_pair-pair-requires-clause-c_bound : goal.rotate_pair-pair-requires-clause-c_bound
rotate_pair-pair-requires-clause-c_bound c =
    rw (to_z-of_z w64 c.at-c.result (search rules), to_z-of_z w64 c.at-s.result (search rules), c.at-c.ensures, c.at-s.ensures)
    (within_size (entry_within _ (omega arith)), within_size (entry_within _ (omega arith)))

pub returns : goal.returns
returns c =
    let a = c.args in
    let r = rw (
      to_z-of_z w64 (cosine_at a.n a.w.now a.k) (search rules),
      to_z-of_z w64 (sine_at a.n a.w.now a.k) (search rules),
      to_z-of_z w64 c.at-c.result (search rules),
      to_z-of_z w64 c.at-s.result (search rules),
      c.at-c.ensures,
      c.at-s.ensures,
    ) at c.rotate_pair-pair.ensures in
    let p = c.requires.1 in
    record {
      both = two_put (omega (arith, p.some, p.below, p.fits)) (λ e. absurd (omega (arith, p.below)))
          (to_z-of_z w64 c.rotate_pair-pair.result.low (search rules) ∙ r.low)
          (to_z-of_z w64 c.rotate_pair-pair.result.high (search rules) ∙ r.high);
      tallied = omega (arith, r, c.add.ensures);
    }
