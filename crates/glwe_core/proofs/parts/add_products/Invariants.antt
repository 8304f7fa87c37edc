use Rattle.std.proofs.Common.{◌≡◌, ◌<◌, ◌≤◌, ℕ, [], get_or}
use Rattle.word_ring.specs.Rows.{row_sum}
use Rattle.negacyclic.specs.Product.{negacyclic_product}
use Rattle.glwe_core.proofs.parts.add_products.Given as goal

-- the parts below the index are done, and the rest stand as they were
abbrev pub invariant-loop-i : goal.invariant-loop-i
invariant-loop-i l = record {
  done : (k : ℕ) → k < l.i → get_or l.parts k [] ≡ row_sum (get_or l.fn.parts k []) (negacyclic_product l.p (get_or l.others k []));
  rest : (k : ℕ) → l.i ≤ k → get_or l.parts k [] ≡ get_or l.fn.parts k [];
  room : l.scratch ≡ l.fn.scratch;
}
