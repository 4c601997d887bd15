-- The words of the causes for which a text is no job.
use Rattle.std.specs.Prelude.{ℕ, List, codes}
use Rattle.guest_asm.specs.declared.cause.JobCause.{JobCause}
use Rattle.guest_asm.specs.declared.cause.JobCause.TheVariants as cause

-- the word of a cause
abbrev pub cause_word : JobCause → List ℕ
cause_word cause.Form = codes "form"
cause_word cause.Harts = codes "harts"
cause_word cause.Twice = codes "twice"
cause_word cause.Range = codes "range"
cause_word cause.Section = codes "section"
cause_word cause.Align = codes "align"
cause_word cause.Full = codes "full"
cause_word cause.Missing = codes "missing"
cause_word cause.Label = codes "label"
cause_word cause.Far = codes "far"
