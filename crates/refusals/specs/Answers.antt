-- The refusals of documents 01 and 02 by their numbers and values, and the verdicts of answers.
use Rattle.std.specs.Prelude.{ℕ, Result, Ok, Err}
use Rattle.refusals.specs.declared.refusal.Refusal.{Refusal}
use Rattle.refusals.specs.declared.refusal.Refusal.TheVariants.{BadLength, InputTooShort, ResultTooShort, ScratchTooShort}
use Rattle.refusals.specs.declared.refusal.Refusal.TheVariants.{AllowanceTooSmall, OutOfRange, BelowHeader, BadCount}
use Rattle.refusals.specs.declared.refusal.Refusal.TheVariants.{BadFileLength, BeyondLimit, RecordingsDiffer, BadFigures}
use Rattle.refusals.specs.declared.refusal.Refusal.TheVariants.{OtherLength, MonthFull, UnknownParty, NotYielded}
use Rattle.refusals.specs.Refusals.{Verdict, refused, refused_at, accepted}

-- document 01, "When a call is turned down", 1 to 9, and the answers of document 02, 10 to 16
abbrev pub verdict_of : Refusal → Verdict
verdict_of BadLength = refused 1
verdict_of InputTooShort = refused 2
verdict_of ResultTooShort = refused 3
verdict_of ScratchTooShort = refused 4
verdict_of AllowanceTooSmall = refused 5
verdict_of (OutOfRange place) = refused_at 6 place
verdict_of BelowHeader = refused 7
verdict_of BadCount = refused 8
verdict_of BadFileLength = refused 9
verdict_of (BeyondLimit place) = refused_at 10 place
verdict_of RecordingsDiffer = refused 11
verdict_of BadFigures = refused 12
verdict_of OtherLength = refused 13
verdict_of MonthFull = refused 14
verdict_of UnknownParty = refused 15
verdict_of NotYielded = refused 16

-- ---- an answer: a refusal, whatever is tested behind it; else what comes behind
abbrev pub behind : {A : Type 0} → Result A Refusal → Verdict → Verdict
behind (Err refusal) rest = verdict_of refusal
behind (Ok x) rest = rest

-- the verdict that it is by itself
abbrev pub answered : {A : Type 0} → Result A Refusal → Verdict
answered (Err refusal) = verdict_of refusal
answered (Ok x) = accepted

-- the number of bytes that a call which fills a buffer has put; 0 in every refusal
abbrev pub bytes_of : Result ℕ Refusal → ℕ
bytes_of (Err refusal) = 0
bytes_of (Ok n) = n
