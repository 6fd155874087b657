use Rattle.list_read.proofs.names.name_decoded.Goals as goal

pub of-requires : goal.of-requires
of-requires c = rw (c.in_ok-value.ensures.ok, c.new-bytes.ensures.items) c.value.ensures.utf8
