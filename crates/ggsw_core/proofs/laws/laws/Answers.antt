use Rattle.ggsw_core.proofs.NoiseParts.{NoiseServing, external_fits, cmux_fits, external_noise, cmux_noise}
use Rattle.ggsw_core.proofs.Rows.{exchanges}
use Rattle.ggsw_core.proofs.laws.laws.Goals as goal

pub returns : goal.returns
returns c =
    let laws : NoiseServing = record {
      plain = record { rows = c.laws.ensures.rows; ring = c.laws.ensures.row_ring; totals = c.laws.ensures.row_totals; products = c.laws-2.ensures.products; rotations = c.laws-2.ensures.rotations };
      sizes = c.laws.ensures.row_sizes;
      product_sizes = c.laws-2.ensures.sizes;
      digits = c.laws-3.ensures.polynomials;
      phases = c.laws-4.ensures.phases;
      phase_sizes = c.laws-4.ensures.sizes;
    } in
    record {
      shapes = record { external_fits = external_fits laws; cmux_fits = cmux_fits laws };
      noise = record {
        external_noise = λ g c n ones bound key bit. external_noise laws n ones bound key bit g c;
        cmux_noise = λ g acc other n ones bound key bit. cmux_noise laws n ones bound key bit g acc other;
      };
      exchange = exchanges;
    }
