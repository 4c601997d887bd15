use Rattle.shadow_layout.proofs.Represented.{represents_after}
use Rattle.shadow_layout.proofs.Sound.{sound, few_operations}
use Rattle.shadow_layout.proofs.laws.event_operations.Goals as goal

pub returns-clause-represented : goal.returns-clause-represented
returns-clause-represented _ rules size hart masks bytes w kind laws small st valid pages = represents_after rules laws size hart masks bytes small w st kind valid pages

pub returns-clause-sound : goal.returns-clause-sound
returns-clause-sound _ rules size hart masks bytes w kind laws small st valid pages = sound rules laws size hart masks bytes small w st kind valid pages

pub returns-clause-few : goal.returns-clause-few
returns-clause-few _ rules size hart masks bytes w kind laws small st valid = few_operations rules laws size hart masks bytes small w st kind valid
