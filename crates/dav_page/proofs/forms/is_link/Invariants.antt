use Rattle.std.proofs.Common.{◌≡◌, length}
use Rattle.dav_page.specs.Pages.{is_link}
use Rattle.dav_page.proofs.forms.is_link.Given as goal

abbrev pub invariant-link : goal.invariant-link
invariant-link l = is_link l.fn.bytes ≡ is_link l.rest

abbrev pub decreases-link : goal.decreases-link
decreases-link l = length l.rest
