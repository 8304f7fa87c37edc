use Rattle.std.proofs.Common.{subst, sym}
use Rattle.fhe_params.specs.declared.params.Params.{Params}
use Rattle.tfhe_level.specs.declared.shape.Circuit.{Circuit}
use Rattle.noise_model.specs.Circuits.{IsCircuit}
use Rattle.compile_pipe.proofs.tables.circuit_of.Goals as goal

pub print_circuit-requires : goal.print_circuit-requires
print_circuit-requires c =
    subst (λ (p : Params). let circuit : Circuit = record { shape = c.args.shape; params = p } in IsCircuit circuit) (sym c.params-params.ensures)
    (c.laws-2.ensures.circuit c.args.table.now c.args.shape c.args.choice.now c.requires.table c.requires.shape c.requires.chosen)

pub returns-clause-rules : goal.returns-clause-rules
returns-clause-rules c =
    subst (λ (p : Params). let circuit : Circuit = record { shape = c.args.shape; params = p } in IsCircuit circuit) (sym c.params-params.ensures)
    (c.laws-2.ensures.circuit c.args.table.now c.args.shape c.args.choice.now c.requires.table c.requires.shape c.requires.chosen)
