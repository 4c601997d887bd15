use Rattle.std.proofs.Common.{◌≡◌, [], ◌∷◌, ◌++◌, List, append_assoc, sym, ap, ◌∙◌, subst}
use Rattle.pl_event.specs.declared.fed.Fed.{Fed}
use Rattle.log_watch.specs.Feeding.{IsFedBy}
use Rattle.log_watch.proofs.feeding.Feeding.push.Goals as goal

pub returns-in_ok-hand_over : goal.returns-in_ok-hand_over
returns-in_ok-hand_over g c start told by =
    subst (λ (piece : List Fed). IsFedBy start (g.W.TurnWorker.view c.hand_over.new.self.worker) piece (told ++ c.args.fed ∷ [])) (sym c.in_ok-hand_over.ensures.piece)
    (c.in_ok-hand_over.ensures.fed start (told ++ c.args.fed ∷ []) (record { same = by.same; all = all }))
  where
    all : (g.W.TurnWorker.view c.args.self.now.worker).fed ++ c.push.new.self.items ≡ told ++ c.args.fed ∷ []
    all = ap (λ (piece : List Fed). (g.W.TurnWorker.view c.args.self.now.worker).fed ++ piece) c.in_ok-push.ensures.items
        ∙ (sym (append_assoc (g.W.TurnWorker.view c.args.self.now.worker).fed c.args.self.now.piece.items (c.args.fed ∷ [])) ∙ ap (λ (xs : List Fed). xs ++ c.args.fed ∷ []) by.all)
