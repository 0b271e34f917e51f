use Rattle.std.proofs.Common.{ap, ◌∙◌}
use Rattle.std.specs.List.{list_any}
use Rattle.region_port.specs.Crashes.{is_above, left_where}
use Rattle.region_port.specs.Disks.{disk_content}
use Rattle.region_port.specs.Entries.{content_of}
use Rattle.region_port.specs.Lists.{all_of}
use Rattle.region_port.proofs.Crashed.{crashes}
use Rattle.region_port.proofs.mem_disk.MemDisk.crash.Goals as goal

pub returns-clause-content : goal.returns-clause-content
returns-clause-content c =
    let before = c.args.self.now in
    crashes c.args.rest (all_of before.rough.segments.items) (disk_content before) (content_of c.crash_nodes.new.nodes)
    (λ path. c.crash_nodes.ensures.content path
    ∙ ap (λ items. left_where (list_any (is_above path) (all_of items)) c.args.rest (content_of before.nodes path)) (ap (λ rough. rough.segments.items) c.replace-rough.ensures.value))
