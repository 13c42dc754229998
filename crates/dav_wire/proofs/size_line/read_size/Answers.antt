use Rattle.std.proofs.Common.{ap, ◌∙◌, arith}
use Rattle.std.specs.Str.Parse.{digits_value}
use Rattle.dav_wire.proofs.SizeReading.{at_long, at_end, at_none, at_extension, at_nowhere, at_partly, at_here, counted, split_up}
use Rattle.dav_wire.proofs.size_line.read_size.Goals as goal

pub returns-then-digits-gt-MOST_DIGITS : goal.returns-then-digits-gt-MOST_DIGITS
returns-then-digits-gt-MOST_DIGITS c =
    at_long c.args.text.now c.count_digits-digits.result
    (let d = c.count_digits-digits.ensures in counted d.within d.all d.ends) (omega arith)

pub returns-then-digits-text : goal.returns-then-digits-text
returns-then-digits-text c =
    at_end c.args.text.now c.count_digits-digits.result
    (let d = c.count_digits-digits.ensures in counted d.within d.all d.ends) (omega arith) (omega arith)

pub returns-then-digits-eq0 : goal.returns-then-digits-eq0
returns-then-digits-eq0 c =
    at_none c.args.text.now c.count_digits-digits.result
    (let d = c.count_digits-digits.ensures in counted d.within d.all d.ends) (omega arith) (omega arith)

pub returns-then-extension : goal.returns-then-extension
returns-then-extension c =
    let d = c.count_digits-digits.ensures in
    at_extension c.args.text.now _ c.count_digits-digits.result c.extension_len-extension.result
    (split_up (counted d.within d.all d.ends) (omega arith) c.if-digits-text.false c.if-digits-eq0.false c.split_at.ensures.back
    c.extension_len-extension.ensures.within c.extension_len-extension.ensures.ends) (omega arith)

pub returns-in-Here : goal.returns-in-Here
returns-in-Here c =
    let d = c.count_digits-digits.ensures in
    at_here c.args.text.now _ _ c.count_digits-digits.result c.extension_len-extension.result _
    (split_up (counted d.within d.all d.ends) (omega arith) c.if-digits-text.false c.if-digits-eq0.false c.split_at.ensures.back
    c.extension_len-extension.ensures.within c.extension_len-extension.ensures.ends) (omega arith) c.split_at-2.ensures.back c.in-Here.ensures (c.number_of.ensures ∙ ap (digits_value 16) c.split_at.ensures.front)

pub returns-in-Partly : goal.returns-in-Partly
returns-in-Partly c =
    let d = c.count_digits-digits.ensures in
    at_partly c.args.text.now _ _ c.count_digits-digits.result c.extension_len-extension.result
    (split_up (counted d.within d.all d.ends) (omega arith) c.if-digits-text.false c.if-digits-eq0.false c.split_at.ensures.back
    c.extension_len-extension.ensures.within c.extension_len-extension.ensures.ends) (omega arith) c.split_at-2.ensures.back c.in-Partly.ensures

pub returns-in-Nowhere : goal.returns-in-Nowhere
returns-in-Nowhere c =
    let d = c.count_digits-digits.ensures in
    at_nowhere c.args.text.now _ _ c.count_digits-digits.result c.extension_len-extension.result
    (split_up (counted d.within d.all d.ends) (omega arith) c.if-digits-text.false c.if-digits-eq0.false c.split_at.ensures.back
    c.extension_len-extension.ensures.within c.extension_len-extension.ensures.ends) c.split_at-2.ensures.back c.in-Nowhere.ensures
