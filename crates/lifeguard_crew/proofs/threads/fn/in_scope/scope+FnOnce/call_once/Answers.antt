use Rattle.lifeguard_crew.proofs.threads.fn.in_scope.scope+FnOnce.call_once.Goals as goal

pub scope-requires : goal.scope-requires
scope-requires g c =
    let said = c.requires.1.1.1.1.1.0 in
    let bounds = c.requires.1.1.1.1.1.1 in
    (bounds.0, (bounds.1, (bounds.2, (bounds.3, (bounds.4, said)))))
