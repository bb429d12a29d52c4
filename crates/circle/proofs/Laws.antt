-- The laws of the circle, gathered: what specs/Laws states, for all places.
-- Assumes nothing.
use mathlib.Core.Path.{sym}
use Prim.Native.Nat.{ℕ, ◌+◌, ◌-◌, ◌*◌}
use native.Mathlib.Omega.{arith}
use Rattle.whole.proofs.Size.{within_size}
use Rattle.circle.specs.Circle.{step}
use Rattle.circle.specs.Laws.{AtPlace, KnownPlaces}
use Rattle.circle.proofs.Tests.{entry}
use Rattle.circle.proofs.Places.{mirror, opposite, turns_on, half_turn_on, K_zero}
use Rattle.circle.proofs.Wave.{cosines, wave, K_start, K_within}
use Rattle.circle.proofs.Stored.{ruled, stored, stored_at}

pub at_place : (p : ℕ) → AtPlace p
at_place p = record {
  period = turns_on (p + 4096) p 1 (omega arith);
  half_turn = half_turn_on (p + 2048) p 0 (omega arith);
  supplement = λ h. opposite (2048 - p) p 0 (omega arith);
  mirrored = λ m h. mirror (4096 * m - p) p m (omega arith);
  size = within_size (K_within p);
}

pub known_places : KnownPlaces
unfolding entry stored ruled wave cosines step
known_places = record {
  start = K_start;
  zero = K_zero;
  first = sym (stored_at 0 (omega arith));
  middle = sym (stored_at 512 (omega arith));
  last = sym (stored_at 1024 (omega arith));
}
