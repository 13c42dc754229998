use Rattle.std.proofs.Common.{◌≡◌, ◌∙◌, ◌++◌, ◌∷◌, [], inr, slice_index_or, refl, subst, rules, arith}
use Rattle.dav_fetch.specs.Asking.{dir_path}
use Rattle.dav_fetch.specs.Fetching.{IsPageVisit}
use Rattle.dav_fetch.specs.Walk.{IsPageOf, dirs_on, each_once, files_on}
use Rattle.dav_fetch.proofs.Ways.{any_default, go_step, plain_found}
use Rattle.dav_fetch.proofs.walking.go_on.Goals as goal

pub add_all-requires-clause-plain : goal.add_all-requires-clause-plain
add_all-requires-clause-plain g c = rw c.deref.ensures.value (plain_found _ _ _ c.in-Ok.ensures.ok.2.found.rows)

pub returns-clause-done : goal.returns-clause-done
returns-clause-done g c =
    let (visit, visited, page, over) = c.in-Ok.ensures.ok in
    let dir = slice_index_or c.args.walked.now.dirs.items c.args.at [] in
    let dir_is : c.index.result.now ≡ dir = c.index.ensures ∙ any_default c.args.walked.now.dirs.items c.args.at c.index.result.now [] c.requires.at in
    let dirs_are : c.add_all.new.dirs.items ≡ c.args.walked.now.dirs.items ++ each_once (dirs_on dir c.in-Ok.found.items) = search rules in
    let files_are : c.add_all.new.files.items ≡ c.args.walked.now.files.items ++ files_on dir c.in-Ok.found.items = search rules in (
      visit,
      (_, visited, over, search rules),
      go_step c.args.at c.args.walked.now.dirs.items c.args.walked.now.files.items visit c.in-Ok.found.items c.add_all.new.dirs.items c.add_all.new.files.items c.requires.at
          (subst (λ d. IsPageOf d visit c.in-Ok.found.items) dir_is page) dirs_are files_are,
    )

-- The page was read, and memory is refused to what it names.
pub returns-in-Err-add_all-clause-ends : goal.returns-in-Err-add_all-clause-ends
returns-in-Err-add_all-clause-ends g c =
    let (visit, visited, page, over) = c.in-Ok.ensures.ok in
    let dir = slice_index_or c.args.walked.now.dirs.items c.args.at [] in
    let dir_is : c.index.result.now ≡ dir = c.index.ensures ∙ any_default c.args.walked.now.dirs.items c.args.at c.index.result.now [] c.requires.at in
    let is : IsPageVisit dir visit = record { path = subst (λ d. visit.path ≡ dir_path d) dir_is page.path; asked = page.asked } in
    (visit ∷ [], inr (visit, g.P.Peer.state c.ask_due.new.peer, refl, visited, is, omega arith))
