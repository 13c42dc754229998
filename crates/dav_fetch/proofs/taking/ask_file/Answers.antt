use Rattle.std.proofs.Common.{◌≡◌, [], inl, refl, subst}
use Rattle.dav_fetch.specs.Asking.{awaits}
use Rattle.dav_fetch.specs.Judging.{gives, keeps, refuses, spoils, use_of}
use Rattle.dav_fetch.proofs.BodyRead.{read_none}
use Rattle.dav_fetch.proofs.Made.{file_askable, visit_of}
use Rattle.dav_fetch.proofs.Visiting.{bytes_visit, file_visit, refused_visit, spoiled_visit}
use Rattle.dav_fetch.proofs.taking.ask_file.Goals as goal

pub returns-in-Gives-clause-asks : goal.returns-in-Gives-clause-asks
returns-in-Gives-clause-asks g c =
    let names = c.args.path.now.names in
    let judged : use_of names (awaits c.args.kept) c.in-Ok-get.got.status c.in-Ok-get.got.headers ≡ gives c.in-Gives.file c.in-Gives.due =
    subst (λ p. use_of p (awaits c.args.kept) c.in-Ok-get.got.status c.in-Ok-get.got.headers ≡ gives c.in-Gives.file c.in-Gives.due) c.names.ensures.value c.in-Gives.ensures in
    inl (file_visit names c.args.kept _ _ _ _ c.args.path.now _ c.in-Ok-get.got c.in-Ok-get.ensures.gets c.read_file.ensures.reads.came (gives c.in-Gives.file c.in-Gives.due) c.read_file.result
    (file_askable names c.args.path.now _ c.args.kept c.requires.path c.requires.is c.requires.kept c.in-Ok.ensures) c.read_file.ensures.reads.read c.requires.path c.in-Ok.ensures judged c.read_file.ensures.reads.kept
    (bytes_visit c.args.path.now names c.in-Gives.file c.in-Gives.due (visit_of _ _ c.args.path.now _ c.in-Ok-get.got c.in-Ok-get.ensures.gets c.read_file.ensures.reads.came) c.read_file.result.ended _ _ c.requires.path c.read_file.ensures.reads.ends))

pub returns-in-Keeps-clause-asks : goal.returns-in-Keeps-clause-asks
returns-in-Keeps-clause-asks g c =
    let names = c.args.path.now.names in
    let judged : use_of names (awaits c.args.kept) c.in-Ok-get.got.status c.in-Ok-get.got.headers ≡ keeps =
    subst (λ p. use_of p (awaits c.args.kept) c.in-Ok-get.got.status c.in-Ok-get.got.headers ≡ keeps) c.names.ensures.value c.in-Keeps.ensures.0 in
    inl (file_visit names c.args.kept _ _ _ _ c.args.path.now _ c.in-Ok-get.got c.in-Ok-get.ensures.gets [] keeps _ (file_askable names c.args.path.now _ c.args.kept c.requires.path c.requires.is c.requires.kept c.in-Ok.ensures) (read_none _) c.requires.path c.in-Ok.ensures judged c.in-Keeps.ensures.1 (tt, refl))

pub returns-in-Refuses-clause-asks : goal.returns-in-Refuses-clause-asks
returns-in-Refuses-clause-asks g c =
    let names = c.args.path.now.names in
    let judged : use_of names (awaits c.args.kept) c.in-Ok-get.got.status c.in-Ok-get.got.headers ≡ refuses =
    subst (λ p. use_of p (awaits c.args.kept) c.in-Ok-get.got.status c.in-Ok-get.got.headers ≡ refuses) c.names.ensures.value c.in-Refuses.ensures.0 in
    rw c.stopped-in-Refuses.ensures
    (inl (file_visit names c.args.kept _ _ _ _ c.args.path.now _ c.in-Ok-get.got c.in-Ok-get.ensures.gets [] refuses _ (file_askable names c.args.path.now _ c.args.kept c.requires.path c.requires.is c.requires.kept c.in-Ok.ensures) (read_none _) c.requires.path c.in-Ok.ensures judged c.in-Refuses.ensures.1
    (refused_visit c.args.path.now names (visit_of _ _ c.args.path.now _ c.in-Ok-get.got c.in-Ok-get.ensures.gets []) c.refused.result _ c.requires.path c.refused.ensures)))

pub returns-in-Spoils-clause-asks : goal.returns-in-Spoils-clause-asks
returns-in-Spoils-clause-asks g c =
    let names = c.args.path.now.names in
    let judged : use_of names (awaits c.args.kept) c.in-Ok-get.got.status c.in-Ok-get.got.headers ≡ spoils =
    subst (λ p. use_of p (awaits c.args.kept) c.in-Ok-get.got.status c.in-Ok-get.got.headers ≡ spoils) c.names.ensures.value c.in-Spoils.ensures.0 in
    rw c.stopped-in-Spoils.ensures
    (inl (file_visit names c.args.kept _ _ _ _ c.args.path.now _ c.in-Ok-get.got c.in-Ok-get.ensures.gets [] spoils _ (file_askable names c.args.path.now _ c.args.kept c.requires.path c.requires.is c.requires.kept c.in-Ok.ensures) (read_none _) c.requires.path c.in-Ok.ensures judged c.in-Spoils.ensures.1
    (spoiled_visit c.args.path.now names (visit_of _ _ c.args.path.now _ c.in-Ok-get.got c.in-Ok-get.ensures.gets []) c.spoiled.result _ c.requires.path c.spoiled.ensures)))
