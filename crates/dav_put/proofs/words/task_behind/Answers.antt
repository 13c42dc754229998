use Rattle.std.proofs.Common.{◌≡◌, Some, arith, bytes_eq, codes, rules, string_bytes, subst, true}
use Rattle.dav_put.specs.declared.words.Task.TheVariants.{Store}
use Rattle.dav_put.specs.Words.{IsSaid, asked_of, path_alone, sweep_asked}
use Rattle.dav_put.proofs.WordsSaid.{one_said, two_said}
use Rattle.dav_put.proofs.words.task_behind.Goals as goal

pub returns-in-len1-clause-said : goal.returns-in-len1-clause-said
returns-in-len1-clause-said c =
    one_said c.args.words.now c.path-item.result c.store_said.result (omega (arith, c.in-len1.len_at_least)) (omega (arith, c.in-len1.len_below)) c.path-item.is
    (subst (λ word. IsSaid (asked_of Store (path_alone word)) c.store_said.result) c.as_str.ensures.value c.store_said.ensures.said)

pub returns-else-ne-clause-said : goal.returns-else-ne-clause-said
returns-else-ne-clause-said c =
    let sweeps : bytes_eq (string_bytes c.verb-item.result) (codes "--sweep") ≡ true = search rules in
    two_said c.args.words.now c.verb-item.result c.dir-item.result c.sweep_said.result (omega (arith, c.in-len2.len_at_least)) (omega (arith, c.in-len2.len_below)) c.verb-item.is c.dir-item.is
    sweeps
    (subst (λ word. IsSaid (sweep_asked word (Some 3600)) c.sweep_said.result) c.as_str-in-len2-2.ensures.value c.sweep_said.ensures.said)
