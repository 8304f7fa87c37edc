use Rattle.blind_rotate.proofs.KeyParts.{key_parts}
use Rattle.blind_rotate.proofs.SwitchedPhases.{PhaseServing, switched_phases}
use Rattle.blind_rotate.proofs.Accumulators.{StepServing, accumulators}
use Rattle.blind_rotate.proofs.Bootstraps.{bootstraps}
use Rattle.blind_rotate.proofs.BootRowPlaces.{exchanges}
use Rattle.blind_rotate.proofs.laws.laws.Goals as goal

pub returns : goal.returns
returns c =
    let steps : StepServing = record {
      rows = c.laws.ensures.rows;
      ring = c.laws.ensures.row_ring;
      sizes = c.laws.ensures.row_sizes;
      ones = c.laws-2.ensures.ones;
      rotations = c.laws-3.ensures.rotations;
      rotation_sizes = c.laws-3.ensures.sizes;
      shapes = c.laws-4.ensures.shapes;
      phases = c.laws-4.ensures.phases;
      products = c.laws-5.ensures.shapes;
      noise = c.laws-5.ensures.noise;
    } in
    let switched : PhaseServing = record {
      rows = c.laws.ensures.rows;
      switching = c.laws.ensures.switching;
      signed = c.laws.ensures.signed;
      phases = c.laws-2.ensures.phases;
      sizes = c.laws-2.ensures.sizes;
      noise = c.laws-2.ensures.noise;
    } in
    let lookups = c.laws-6.ensures.lookups in
    record {
      keys = key_parts;
      fitting = record { boot_key_fits = λ p big small switch boot fits. record { secret = fits.secret; boot_rows = fits.boot_rows } };
      switched = switched_phases switched lookups;
      accumulator = accumulators steps;
      bootstraps = bootstraps (record { steps = steps; switched = switched; lookups = lookups; extraction = c.laws-4.ensures.extraction });
      exchange = exchanges c.laws-5.ensures.exchange;
    }
