use Rattle.std.proofs.Common.{◌≡◌, length, map}
use Rattle.std.specs.List.{range_with_len}
use Rattle.glwe_core.specs.Glwe.{lengths_of}
use Rattle.ggsw_core.specs.Ggsw.{plus_all, row_product}
use Rattle.ggsw_core.proofs.products.add_part.Given as goal

-- the products of the first t places are added
abbrev pub invariant-loop-t : goal.invariant-loop-t
invariant-loop-t l = record {
  added : l.into ≡ plus_all l.fn.into (map (row_product l.g l.c l.j) (range_with_len 1 l.t));
  shape : lengths_of l.into ≡ lengths_of l.fn.into;
  degree : length l.digit ≡ length l.fn.digit;
  room : l.scratch ≡ l.fn.scratch;
}
