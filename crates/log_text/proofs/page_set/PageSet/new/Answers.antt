use Rattle.std.proofs.Common.{sym, ap, ◌∙◌, rules}
use Rattle.pl_base.specs.Pages.{count_below}
use Rattle.pl_base.proofs.Pages.{count_none}
use Rattle.log_text.proofs.page_set.PageSet.new.Goals as goal

pub invariant_of-result : goal.invariant_of-result
invariant_of-result c = record {
  all_pages = search rules;
  counted = sym (count_none 4096) ∙ ap (λ (test : _). count_below test 4096) (sym c.in_ok-unmapped.ensures.1);
}
