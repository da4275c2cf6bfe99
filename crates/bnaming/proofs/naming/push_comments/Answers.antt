use Rattle.bsources.specs.Files.{files_shown}
use Rattle.bnaming.specs.Texts.{comment_text}
use Rattle.bnaming.proofs.TextSteps.{text_more}
use Rattle.bnaming.proofs.naming.push_comments.Goals as goal

pub loop-comment-preserved : goal.loop-comment-preserved
loop-comment-preserved c =
    text_more (comment_text (files_shown c.args.files.now)) c.args.text.now c.loop-comment.text c.push_comment.new.text c.args.comments.now
    c.loop-comment.comment-index _ c.loop-comment-test.true c.loop-comment.invariant c.in_ok-push_comment.ensures
