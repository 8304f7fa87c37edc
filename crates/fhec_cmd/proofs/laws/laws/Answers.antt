use Rattle.fhec_cmd.proofs.laws.laws.Goals as goal

pub returns-clause-calls : goal.returns-clause-calls
returns-clause-calls c = c.headline.ensures

pub returns-clause-circuits : goal.returns-clause-circuits
returns-clause-circuits c = c.laws.ensures

pub returns-clause-programs : goal.returns-clause-programs
returns-clause-programs c = c.laws-2.ensures
