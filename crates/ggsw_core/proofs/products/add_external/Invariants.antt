use Rattle.std.proofs.Common.{◌≡◌, length}
use Rattle.std.specs.List.{flat_map, range_with_len}
use Rattle.glwe_core.specs.Glwe.{lengths_of}
use Rattle.ggsw_core.specs.Ggsw.{plus_all, part_products}
use Rattle.ggsw_core.proofs.products.add_external.Given as goal

-- the products of the first j parts are added
abbrev pub invariant-loop-j : goal.invariant-loop-j
invariant-loop-j l = record {
  added : l.into ≡ plus_all l.fn.into (flat_map (part_products l.g l.c) (range_with_len 0 l.j));
  shape : lengths_of l.into ≡ lengths_of l.fn.into;
  degree : length l.digit ≡ length l.fn.digit;
  room : l.scratch ≡ l.fn.scratch;
}
