-- The words of the causes for which a text is no log.
use Rattle.std.specs.Prelude.{ℕ, List, codes}
use Rattle.log_text.specs.declared.cause.LogCause.{LogCause}
use Rattle.log_text.specs.declared.cause.LogCause.TheVariants as cause

-- the word of a cause
abbrev pub cause_word : LogCause → List ℕ
cause_word cause.Header = codes "header"
cause_word cause.Form = codes "form"
cause_word cause.Page = codes "page"
cause_word cause.Records = codes "records"
cause_word cause.Hart = codes "hart"
cause_word cause.Ended = codes "ended"
cause_word cause.Open = codes "open"
cause_word cause.Arc = codes "arc"
cause_word cause.Notice = codes "notice"
cause_word cause.Access = codes "access"
cause_word cause.Range = codes "range"
cause_word cause.Map = codes "map"
