use Rattle.std.proofs.Common.{[], ◌∷◌, ap, map}
use Rattle.standard_probes.specs.Probes.{kinds_meaning, harts_meaning, bytes_meaning, alert_meaning}
use Rattle.standard_top.proofs.Handed.{handed}
use Rattle.standard_top.proofs.probes.in_order.Goals as goal

pub returns-clause-meanings : goal.returns-clause-meanings
returns-clause-meanings g c =
    handed _ _ (kinds_meaning ∷ harts_meaning ∷ bytes_meaning ∷ []) _ alert_meaning c.in_ok-hand_in-4.ensures.meanings
    (handed _ _ (kinds_meaning ∷ harts_meaning ∷ []) _ bytes_meaning c.in_ok-hand_in-3.ensures.meanings
    (handed _ _ (kinds_meaning ∷ []) _ harts_meaning c.in_ok-hand_in-2.ensures.meanings
    (handed _ _ [] _ kinds_meaning c.in_ok-hand_in.ensures.meanings (ap (map _) c.new-probes.ensures.items) c.requires.kinds)
    c.requires.harts) c.requires.bytes) c.requires.alert
