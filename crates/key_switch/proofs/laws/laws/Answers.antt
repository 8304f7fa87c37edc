use Rattle.key_switch.proofs.Noise.{Below, near, length-switched}
use Rattle.key_switch.proofs.Places.{exchanges}
use Rattle.key_switch.proofs.laws.laws.Goals as goal

pub returns-clause-switching : goal.returns-clause-switching
returns-clause-switching c =
    let below : Below = record {
      ring = c.laws.ensures.ring;
      residues = c.laws.ensures.residues;
      sizes = c.laws.ensures.sizes;
      row_ring = c.laws.ensures.row_ring;
      row_sizes = c.laws.ensures.row_sizes;
      row_totals = c.laws.ensures.row_totals;
      combined = c.laws.ensures.combined;
      rows = c.laws.ensures.rows;
      digits = c.laws-2.ensures.digits;
      polynomials = c.laws-2.ensures.polynomials;
      phases = c.laws-3.ensures.phases;
      phase_sizes = c.laws-3.ensures.sizes;
    } in
    record { switched_length = length-switched below; switched_near = near below }

pub returns-clause-exchange : goal.returns-clause-exchange
returns-clause-exchange _ = exchanges
