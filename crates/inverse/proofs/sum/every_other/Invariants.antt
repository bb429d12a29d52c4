-- After i turns i products are added, and the place is that of the next.
use Rattle.std.proofs.Common.{◌≡◌, ◌+◌, ◌*◌, ◌%◌, ◌≤◌, length, drop}
use Rattle.std.specs.Slice.Iter.{chunks_exact_rest, chunks_exact_size}
use Rattle.inverse.specs.Steps.{SumMade}
use Rattle.inverse.proofs.sum.every_other.Given as goal

abbrev pub invariant-loop-pair : goal.invariant-loop-pair
invariant-loop-pair l = let i = length l.yielded in record {
  size : chunks_exact_size l.pair-iterator ≡ 2;
  rest : chunks_exact_rest l.pair-iterator ≡ drop (2 * i) l.coefficients;
  some : 2 * i ≤ length l.coefficients;
  place_is : l.place ≡ l.turn * (l.first + 2 * i) % 4096;
  made : SumMade i l.first l.turn l.coefficients l.sum;
}
