use Rattle.std.proofs.Common.{◌≡◌, ℕ, suc, List, true, false, cond}
use Rattle.std.specs.Prelude.{string_bytes}
use Rattle.std.specs.declared.option.Option.{Option}
use Rattle.log_text.specs.Streaming.{WasRead, bytes_ahead}
use Rattle.run_record.specs.Texts.{IsUpgradeOf}
use Rattle.run_record.specs.Upgrading.{IsUpgrading}
use Rattle.run_record.proofs.upgrade.upgrade_lines.Given as goal

abbrev pub invariant-lines : goal.invariant-lines
invariant-lines g l =
    let left = g.S.Source.left in
    record {
      going : l.reading ≡ true → (limit : ℕ) (began : Option (List ℕ)) → IsUpgrading limit began (left l.initial.source) l.initial.stream l.initial.upgrade → IsUpgrading limit began (left l.source) l.stream l.upgrade;
      over : l.reading ≡ false → (limit : ℕ) (began : Option (List ℕ)) → IsUpgrading limit began (left l.initial.source) l.initial.stream l.initial.upgrade
          → WasRead limit began (left l.source) (λ bytes. IsUpgradeOf bytes (string_bytes l.upgrade.text));
      quiet : g.S.Source.faults l.source ≡ g.S.Source.faults l.initial.source;
    }

abbrev pub decreases-lines : goal.decreases-lines
decreases-lines g l = cond l.reading (suc (bytes_ahead l.stream.buffer)) 0
