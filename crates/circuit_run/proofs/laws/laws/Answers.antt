use Rattle.circuit_run.proofs.OutNoise.{row_laws, noise_of_runs}
use Rattle.circuit_run.proofs.Terms.{CiphertextLaws}
use Rattle.circuit_run.proofs.laws.laws.Goals as goal

pub returns-clause-rows : goal.returns-clause-rows
returns-clause-rows c = row_laws

pub returns-clause-noise : goal.returns-clause-noise
returns-clause-noise c =
    let laws : CiphertextLaws = record {
      rows = c.laws.ensures.rows;
      noise = c.laws-2.ensures.noise;
      decoding = c.laws-2.ensures.decoding;
      switching = c.laws-3.ensures.switching;
      fitting = c.laws-4.ensures.fitting;
      bootstraps = c.laws-4.ensures.bootstraps;
      adds = c.laws-7.ensures.noise;
      constraints = c.laws-7.ensures.constraints;
      forms = c.laws-5.ensures;
      nodes = c.laws-6.ensures;
    } in
    noise_of_runs laws
