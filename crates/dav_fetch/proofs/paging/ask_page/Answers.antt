use Rattle.std.proofs.Common.{◌≡◌, ◌∙◌, ◌<◌, ◌≤◌, ◌++◌, ℕ, List, length, take, Ok, [], inr, refl, sym, ap, subst, rules, arith}
use Rattle.std.proofs.lemmas.List.{take_all}
use Rattle.dav_io.proofs.Cases.{if_some}
use Rattle.dav_fetch.specs.Asking.{dir_path}
use Rattle.dav_fetch.specs.Reading.{IsOver, ReadOn}
use Rattle.dav_fetch.specs.Walk.{IsFoundIn}
use Rattle.dav_fetch.proofs.BodyRead.{read_none}
use Rattle.dav_fetch.proofs.Made.{page_askable, visit_of, visited}
use Rattle.dav_fetch.proofs.paging.ask_page.Goals as goal

page_is : (came page : List ℕ) (due : ℕ) → length came < due → page ≡ [] ++ take due came → page ≡ came
page_is came page due fewer is = is ∙ take_all due came (omega (arith, fewer))

few : (came : List ℕ) → length came < 16777217 → length came ≤ 16777216
few came fewer = omega (arith, fewer)

pub returns-in-Ok-Some-clause-ok : goal.returns-in-Ok-Some-clause-ok
returns-in-Ok-Some-clause-ok g c =
    let r = c.in-Over.ensures.reads in
    let same : c.read_up_to.new.into.items ≡ r.0 = page_is r.0 c.read_up_to.new.into.items _ r.1.ends.2 (r.2 ∙ ap (λ z. z ++ take 16777217 r.0) c.new-page.ensures.items) in (
      visit_of _ _ c.args.dir.now c.empty-fields.result c.in-Ok-get.got c.in-Ok-get.ensures.gets r.0,
      visited _ _ _ _ _ _ c.in-Ok-get.ensures.gets r.0 (page_askable c.args.dir.now.names c.args.dir.now c.empty-fields.result c.requires.dir c.requires.is c.empty-fields.ensures) (subst (ReadOn (g.P.Peer.state c.get.new.self) r.0) (sym r.1.ends.0) r.1.read),
      record { path = c.requires.dir; asked = c.empty-fields.ensures; status = search rules; fits = few r.0 r.1.ends.2; found = subst (λ p. IsFoundIn c.args.dir.now.names p c.in-Ok-Some.found.items) (c.deref.ensures.value ∙ same) (if_some _ _ _ c.in-Ok-Some.field-0-is c.in-Ok-Some.ensures.some) },
      subst IsOver (sym r.1.ends.0) r.1.ends.1,
    )

pub returns-then-status-ne200-clause-err : goal.returns-then-status-ne200-clause-err
returns-then-status-ne200-clause-err g c = inr (
  visit_of _ _ c.args.dir.now c.empty-fields.result c.in-Ok-get.got c.in-Ok-get.ensures.gets [],
  g.P.Peer.state c.get.new.self,
  visited _ _ _ _ _ _ c.in-Ok-get.ensures.gets [] (page_askable c.args.dir.now.names c.args.dir.now c.empty-fields.result c.requires.dir c.requires.is c.empty-fields.ensures) (read_none _),
  record { path = c.requires.dir; asked = c.empty-fields.ensures },
  (search rules, search rules, search rules, refl),
)

pub returns-in-Full-clause-err : goal.returns-in-Full-clause-err
returns-in-Full-clause-err g c =
    let r = c.in-Full.ensures.reads in
    let path_is : c.in-Ok.path ≡ dir_path c.args.dir.now.names = c.in-Ok.ensures ∙ c.requires.dir in
    let status_is : c.in-Ok-get.got.status ≡ 200 = search rules in inr (
      visit_of _ _ c.args.dir.now c.empty-fields.result c.in-Ok-get.got c.in-Ok-get.ensures.gets r.0,
      g.P.Peer.state c.read_up_to.new.peer,
      visited _ _ _ _ _ _ c.in-Ok-get.ensures.gets r.0 (page_askable c.args.dir.now.names c.args.dir.now c.empty-fields.result c.requires.dir c.requires.is c.empty-fields.ensures) (subst (ReadOn (g.P.Peer.state c.get.new.self) r.0) (sym r.1.ends.0) r.1.read),
      record { path = c.requires.dir; asked = c.empty-fields.ensures },
      (path_is, status_is, r.1.ends.1, refl),
    )

pub returns-in-Ok-None-clause-err : goal.returns-in-Ok-None-clause-err
returns-in-Ok-None-clause-err g c =
    let r = c.in-Over.ensures.reads in
    let same : c.read_up_to.new.into.items ≡ r.0 = page_is r.0 c.read_up_to.new.into.items _ r.1.ends.2 (r.2 ∙ ap (λ z. z ++ take 16777217 r.0) c.new-page.ensures.items) in
    let path_is : c.in-Ok.path ≡ dir_path c.args.dir.now.names = c.in-Ok.ensures ∙ c.requires.dir in
    let status_is : c.in-Ok-get.got.status ≡ 200 = search rules in inr (
      visit_of _ _ c.args.dir.now c.empty-fields.result c.in-Ok-get.got c.in-Ok-get.ensures.gets r.0,
      g.P.Peer.state c.read_up_to.new.peer,
      visited _ _ _ _ _ _ c.in-Ok-get.ensures.gets r.0 (page_askable c.args.dir.now.names c.args.dir.now c.empty-fields.result c.requires.dir c.requires.is c.empty-fields.ensures) (subst (ReadOn (g.P.Peer.state c.get.new.self) r.0) (sym r.1.ends.0) r.1.read),
      record { path = c.requires.dir; asked = c.empty-fields.ensures },
      (
        path_is,
        status_is,
        subst IsOver (sym r.1.ends.0) r.1.ends.1,
        few r.0 r.1.ends.2,
        λ found is. c.in-Ok-None.ensures.none (ap (λ o. Ok o) c.in-Ok-None.field-0-is) found (subst (λ p. IsFoundIn c.args.dir.now.names p found) (sym (c.deref.ensures.value ∙ same)) is.found),
        refl,
      ),
    )

pub returns-in-Failed-clause-err : goal.returns-in-Failed-clause-err
returns-in-Failed-clause-err g c =
    let r = c.in-Failed.ensures.reads in
    let status_is : c.in-Ok-get.got.status ≡ 200 = search rules in inr (
      visit_of _ _ c.args.dir.now c.empty-fields.result c.in-Ok-get.got c.in-Ok-get.ensures.gets r.0,
      r.1.at,
      visited _ _ _ _ _ _ c.in-Ok-get.ensures.gets r.0 (page_askable c.args.dir.now.names c.args.dir.now c.empty-fields.result c.requires.dir c.requires.is c.empty-fields.ensures) r.1.read,
      record { path = c.requires.dir; asked = c.empty-fields.ensures },
      (status_is, r.1.ends.0, r.1.ends.2),
    )
