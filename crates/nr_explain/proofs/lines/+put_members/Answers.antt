-- The goals of `lines::put_members` that no tactic closes.
use Rattle.nr_explain.specs.Coded.{field_of}
use Rattle.nr_explain.proofs.Rows.{members_put}
use Rattle.nr_explain.proofs.lines.+put_members.Goals as goal

pub returns-in_ok-push-in-Some : goal.returns-in_ok-push-in-Some
returns-in_ok-push-in-Some t c =
    members_put c.put_members.result field_of c.args.form.now _ c.args.line.now c.in-Some.word.now c.in-Some.words.now c.args.out.now.items
    c.put_member-in-Some.new.out.items c.push.new.self.items c.put_members.new.out.items c.in-len1-up.len_at_least c.in-Some.ensures.pieces
    c.in_ok-put_member-in-Some.ensures c.in_ok-push-in-Some.ensures.items c.put_members.ensures
