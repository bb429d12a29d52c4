use Rattle.std.proofs.Common.{arith, rules}
use Rattle.transforms.proofs.Bases.{cosine_one}
use Rattle.transforms.proofs.Levels.{sixth}
use Rattle.transforms.proofs.short.cosine_short.Goals as goal

pub returns-then-n-eq1 : goal.returns-then-n-eq1
returns-then-n-eq1 c = cosine_one c.requires.0 (omega arith) (search rules)

pub cosine_dft-requires-in_default : goal.cosine_dft-requires-in_default
cosine_dft-requires-in_default c = rw (sixth c.args.n c.requires.0.ready.length_ok c.requires.1 (omega arith)) at c.requires.0

pub returns-in_default : goal.returns-in_default
returns-in_default c = rw (sixth c.args.n c.requires.0.ready.length_ok c.requires.1 (omega arith)) c.cosine_dft-in_default.ensures
