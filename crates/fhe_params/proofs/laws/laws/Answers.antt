use Rattle.fhe_params.proofs.ReadLimits.{table_kept, params_kept}
use Rattle.fhe_params.proofs.LimitTests.{limit_tests}
use Rattle.fhe_params.proofs.laws.laws.Goals as goal

pub returns-clause-tables : goal.returns-clause-tables
returns-clause-tables c = record { read = table_kept; params = params_kept }

pub returns-clause-limits : goal.returns-clause-limits
returns-clause-limits c = limit_tests
