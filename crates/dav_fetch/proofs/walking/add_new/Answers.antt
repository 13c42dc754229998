use Rattle.std.proofs.Common.{◌≡◌, ◌++◌, ◌∷◌, [], false, nat_cmp, rules}
use Rattle.std.specs.BTreeSet.{contains}
use Rattle.std.specs.Cmp.Lexicographic.{slice_cmp}
use Rattle.dav_fetch.proofs.Naming.{pushed_named}
use Rattle.dav_fetch.proofs.walking.add_new.Goals as goal

pub returns-in_ok-push-clause-named : goal.returns-in_ok-push-clause-named
returns-in_ok-push-clause-named c =
    let name_is : c.in_ok-try_clone.field-0 ≡ c.args.name.now = search rules in
    let absent : contains (slice_cmp nat_cmp) c.args.names.now c.in_ok-try_clone.field-0 ≡ false = search rules in
    let items : c.push.new.self.items ≡ c.args.dirs.now.items ++ (c.args.dir.now ++ c.in_ok-try_clone.field-0 ∷ []) ∷ [] = search rules in
    pushed_named c.args.dir.now c.args.dirs.now.items c.push.new.self.items c.args.names.now c.insert.new.self c.in_ok-try_clone.field-0 c.requires.named absent
    c.in_ok-insert.ensures.updates items
