use Rattle.reapi_dir.specs.Spelling.{link_text}
use Rattle.reapi_dir.proofs.Appends.{fields_more}
use Rattle.reapi_dir.proofs.write.push_links.Goals as goal

pub loop-link-preserved : goal.loop-link-preserved
loop-link-preserved c =
    fields_more link_text c.args.links.now c.loop-link.link-index c.link-item.result c.args.out.now.items c.loop-link.out.items _
    c.loop-link-test.true c.link-item.is c.loop-link.invariant c.in_ok-push_link.ensures
