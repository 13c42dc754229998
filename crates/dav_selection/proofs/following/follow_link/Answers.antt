use Rattle.std.proofs.Common.{◌≡◌, Ok, subst, ℕ, List}
use Rattle.dav_core.specs.Grammar.{parsed}
use Rattle.dav_selection.specs.Taken.{taken}
use Rattle.dav_selection.proofs.Walks.{link_visited}
use Rattle.dav_selection.proofs.following.follow_link.Goals as goal

pub returns-clause-table : goal.returns-clause-table
returns-clause-table g c =
    let at = subst (λ (h : List ℕ). parsed h c.args.prefix.now ≡ Ok c.in-Ok.path) c.as_str.ensures.value c.in-Ok.ensures.ok in
    link_visited g.S.GuardedFileSystem.view c.args.credentials.now (taken c.args.wanted) c.args.prefix.now c.args.href.now c.args.fs.now c.visit-visited.new.fs c.in-Ok.path
    c.visit-visited.result c.gives_record.result c.args.records.now.items c.visit-visited.new.records.items at c.visit-visited.ensures.table c.gives_record.ensures
