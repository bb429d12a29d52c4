use Rattle.std.proofs.Common.{arith}
use Rattle.transforms.proofs.Bases.{dct_one}
use Rattle.transforms.proofs.Levels.{sixth}
use Rattle.transforms.proofs.short.dct_short.Goals as goal

pub returns-then-n-eq1 : goal.returns-then-n-eq1
returns-then-n-eq1 c = dct_one c.requires.0 (omega arith)

pub dct-requires-in_default : goal.dct-requires-in_default
dct-requires-in_default c = rw (sixth c.args.n c.requires.0.ready.length_ok c.requires.1 (omega arith)) at c.requires.0

pub returns-in_default : goal.returns-in_default
returns-in_default c = rw (sixth c.args.n c.requires.0.ready.length_ok c.requires.1 (omega arith)) c.dct-in_default.ensures
