use Rattle.std.proofs.lemmas.Bool.{MatchBool-at_true, MatchBool-at_false}
use Rattle.std.proofs.lemmas.List.{nil_from_length}
use Rattle.dav_core.proofs.TagMembers.{read_none, read_last, read_more}
use Rattle.dav_core.proofs.etag_list.all_tags.Goals as goal

pub returns-then-not-branch : goal.returns-then-not-branch
returns-then-not-branch c =
    read_none c.members.rest.now _ _ _ c.members.tags.items _ c.comma.ensures.value c.split_at.ensures.front c.split_at.ensures.back c.members.invariant
    (MatchBool-at_false _ _ c.if-not-branch.true c.in_ok-add_member.ensures)

pub members-preserved : goal.members-preserved
members-preserved c =
    read_more c.members.rest.now _ _ _ _ _ c.members.tags.items c.add_member.new.tags.items _ c.comma.ensures.value c.split_at.ensures.front c.split_at.ensures.back c.members.invariant
    (MatchBool-at_true _ _ c.if-not-branch.false c.in_ok-add_member.ensures) c.in-Some.ensures.cases.0

pub returns-in-None : goal.returns-in-None
returns-in-None c =
    read_last c.members.rest.now _ _ _ c.members.tags.items c.add_member.new.tags.items _ c.comma.ensures.value c.split_at.ensures.front c.split_at.ensures.back c.members.invariant
    (MatchBool-at_true _ _ c.if-not-branch.false c.in_ok-add_member.ensures) (nil_from_length _ c.in-None.ensures.cases)
