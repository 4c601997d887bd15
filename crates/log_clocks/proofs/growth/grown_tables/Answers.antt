use Rattle.log_clocks.proofs.Grown.{clocks_on, lasts_on, passed_on, same_clocks, same_table}
use Rattle.log_clocks.proofs.growth.grown_tables.Goals as goal

pub returns-clause-clocks : goal.returns-clause-clocks
returns-clause-clocks c harts lines more clocks flow has = clocks_on harts lines more flow clocks has

pub returns-clause-lasts : goal.returns-clause-lasts
returns-clause-lasts c = lasts_on

pub returns-clause-passed : goal.returns-clause-passed
returns-clause-passed c = passed_on

pub returns-clause-same_clocks : goal.returns-clause-same_clocks
returns-clause-same_clocks c = same_clocks

pub returns-clause-same_lasts : goal.returns-clause-same_lasts
returns-clause-same_lasts c = same_table
