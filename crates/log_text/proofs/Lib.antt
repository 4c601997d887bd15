mod ReadLemmas
mod ReaderLemmas
mod RowLaws
mod Same
pub mod TextLength
pub mod AddedLines
pub mod ArcRules
pub mod ArcPoints
pub mod Flow
pub mod LinesBefore
pub mod MappedLines
pub mod PageLemmas
pub mod OneFault
pub mod RowRules
pub mod RuleLemmas
pub mod RunOfText
pub mod SoundLines
pub mod TallyLemmas
pub mod TextOfRun
pub mod WriteLemmas
pub mod WholeLines
pub mod Fronts
pub mod StreamLemmas
pub mod HexDigits
