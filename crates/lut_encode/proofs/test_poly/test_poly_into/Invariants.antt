use Rattle.std.proofs.Common.{◌≡◌, length, take, map}
use Rattle.std.specs.List.{range_with_len}
use Rattle.lut_encode.specs.TestPolynomial.{test_coefficient}
use Rattle.lut_encode.proofs.test_poly.test_poly_into.Given as goal

-- the coefficients before the next one are those of the test polynomial
abbrev pub invariant-loop-j : goal.invariant-loop-j
invariant-loop-j l = record {
  number : length l.out ≡ l.n;
  done : take l.j l.out ≡ map (test_coefficient l.entries l.n l.width) (range_with_len 0 l.j);
}
