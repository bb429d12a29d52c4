-- When the loop comes to k, the words from 1 up to k and the last k - 1 of both parts are made.
use Rattle.std.proofs.Common.{◌+◌, ◌-◌, ◌*◌, pos, ◌+ℤ◌, ◌-ℤ◌}
use Rattle.words.proofs.Writing.{Ends}
use Rattle.ffct.specs.Transforms.{cosine_beyond, sine_beyond}
use Rattle.counts.specs.Tally.{Summed}
use Rattle.blocks.specs.Buffers.{cosine_of_a, sine_of_a, cosine_of_b, sine_of_b}
use Rattle.blocks.proofs.buffers.join_parts.Given as goal

abbrev pub invariant-loop-k : goal.invariant-loop-k
invariant-loop-k l = record {
  real_ends : Ends (pos 0) 1 (l.k - 1) (l.k - 1) (l.n - 1)
      (λ i. cosine_beyond l.n (cosine_of_a l.n l.dfts) (1 + i) +ℤ sine_beyond l.n (sine_of_b l.n l.dfts) (1 + i)) l.initial.real l.real;
  imaginary_ends : Ends (pos 0) 1 (l.k - 1) (l.k - 1) (l.n - 1)
      (λ i. cosine_beyond l.n (cosine_of_b l.n l.dfts) (1 + i) -ℤ sine_beyond l.n (sine_of_a l.n l.dfts) (1 + i))
      l.initial.imaginary l.imaginary;
  tallied : Summed (4 * (l.k - 1)) l.initial.tally l.tally;
}
