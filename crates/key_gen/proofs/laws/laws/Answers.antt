use Rattle.key_gen.proofs.Fitting.{LowerLaws, keys}
use Rattle.key_gen.proofs.BootFitting.{boot_laws}
use Rattle.key_gen.proofs.laws.laws.Goals as goal

pub returns : goal.returns
returns c =
    let lower : LowerLaws = record { ring = c.laws.ensures.ring; signed = c.laws.ensures.signed; draws = c.laws-2.ensures; phases = c.laws-3.ensures.phases; ones = c.laws-3.ensures.ones; noise = c.laws-3.ensures.noise } in
    record {
      keys = keys lower;
      boot_keys = boot_laws (record {
        lower = lower;
        rows = c.laws.ensures.rows;
        row_ring = c.laws.ensures.row_ring;
        totals = c.laws.ensures.row_totals;
        products = c.laws-4.ensures.products;
        rotations = c.laws-4.ensures.rotations;
        shapes = c.laws-5.ensures.shapes;
        phases = c.laws-5.ensures.phases;
        polynomials = c.laws-6.ensures.keys;
      });
    }
