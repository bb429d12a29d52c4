use Rattle.std.proofs.Common.{◌≡◌, arith, refl}
use Rattle.words.proofs.Writing.{written_one}
use Rattle.transforms.proofs.Bases.{sine_few}
use Rattle.transforms.proofs.Levels.{sixth}
use Rattle.transforms.proofs.short.sine_short.Goals as goal

pub returns-then-n-eq1 : goal.returns-then-n-eq1
returns-then-n-eq1 c = let one : c.args.n ≡ 1 = omega arith in sine_few c.requires.0 (omega arith) (rw one (written_one (omega arith) refl))

pub sine_dft-requires-in_default : goal.sine_dft-requires-in_default
sine_dft-requires-in_default c = rw (sixth c.args.n c.requires.0.ready.length_ok c.requires.1 (omega arith)) at c.requires.0

pub returns-in_default : goal.returns-in_default
returns-in_default c = rw (sixth c.args.n c.requires.0.ready.length_ok c.requires.1 (omega arith)) c.sine_dft-in_default.ensures
