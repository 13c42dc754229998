use denote.Shadow.{shadow}
use denote.Text.{Utf8}
use Rattle.std.proofs.Common.{length}
use Rattle.dav_page.proofs.Reader.{CrumbsRead}
use Rattle.dav_page.proofs.reading.skip_crumbs.Given as goal

abbrev pub invariant-crumbs : goal.invariant-crumbs
invariant-crumbs l = CrumbsRead l.fn.whole l.left × shadow (Utf8 l.left)

abbrev pub decreases-crumbs : goal.decreases-crumbs
decreases-crumbs l = length l.left
