use Rattle.guest_asm.proofs.Generating.{four-harts, four-entries}
use Rattle.guest_asm.proofs.generator.draw.Goals as goal

pub returns-clause-code : goal.returns-clause-code
returns-clause-code c =
    (four-harts c.args.s c.args.z c.add_hart.new.self.x c.add_hart-2.new.self.x c.add_hart-3.new.self.x c.add_hart-4.new.self.x
    c.new.result.items c.add_hart.new.self.code.items c.add_hart-2.new.self.code.items c.add_hart-3.new.self.code.items c.add_hart-4.new.self.code.items
    c.new.ensures.items
    (record { draws = c.in_ok-first.ensures.draws; added = c.in_ok-first.ensures.code })
    (record { draws = c.in_ok-second.ensures.draws; added = c.in_ok-second.ensures.code })
    (record { draws = c.in_ok-third.ensures.draws; added = c.in_ok-third.ensures.code })
    (record { draws = c.in_ok-fourth.ensures.draws; added = c.in_ok-fourth.ensures.code })).four

pub returns-clause-entries : goal.returns-clause-entries
returns-clause-entries c =
    four-entries c.args.s c.args.z c.in_ok-first.first c.in_ok-second.second c.in_ok-third.third c.in_ok-fourth.fourth
    c.new.result.items c.add_hart.new.self.code.items c.add_hart-2.new.self.code.items c.add_hart-3.new.self.code.items c.add_hart-4.new.self.code.items
    (four-harts c.args.s c.args.z c.add_hart.new.self.x c.add_hart-2.new.self.x c.add_hart-3.new.self.x c.add_hart-4.new.self.x
    c.new.result.items c.add_hart.new.self.code.items c.add_hart-2.new.self.code.items c.add_hart-3.new.self.code.items c.add_hart-4.new.self.code.items
    c.new.ensures.items
    (record { draws = c.in_ok-first.ensures.draws; added = c.in_ok-first.ensures.code })
    (record { draws = c.in_ok-second.ensures.draws; added = c.in_ok-second.ensures.code })
    (record { draws = c.in_ok-third.ensures.draws; added = c.in_ok-third.ensures.code })
    (record { draws = c.in_ok-fourth.ensures.draws; added = c.in_ok-fourth.ensures.code }))
    c.in_ok-first.ensures.entry c.in_ok-second.ensures.entry c.in_ok-third.ensures.entry c.in_ok-fourth.ensures.entry
