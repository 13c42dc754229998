use Rattle.std.proofs.Common.{◌≡◌, true, rules, ap, ◌∙◌}
use Rattle.dav_core.specs.Path.{all_plain, is_front}
use Rattle.dav_core.proofs.Plain.{front_plain, plain_drop}
use Rattle.dav_core.proofs.parsing.placed.Goals as goal

pub new-requires : goal.new-requires
new-requires c =
    let begins : is_front c.args.prefix.items c.args.all.items ≡ true = search rules in
    front_plain c.args.prefix.items c.args.all.items begins c.requires

pub new-requires-2 : goal.new-requires-2
new-requires-2 c = ap all_plain c.in_ok-names.ensures ∙ plain_drop c.len.result c.args.all.items c.requires
