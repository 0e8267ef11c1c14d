use Rattle.std.proofs.Common.{◌≡◌, None, if◌then◌else◌}
use Rattle.footprint.specs.declared.resource.Resource.{Resource}
use Rattle.row_store.specs.Forgetting.{kept_on, has_write}
use Rattle.row_store.proofs.forgetting.forget_writes.Given as goal

-- with what the writes that are left forget it is as with all of them
abbrev pub invariant-loop-name : goal.invariant-loop-name
invariant-loop-name l = (shelf : Resource)
    → (if has_write l.catalogue l.name-iterator shelf then None else kept_on l.kept shelf)
    ≡ (if has_write l.catalogue l.fn.writes.entries shelf then None else kept_on l.fn.kept shelf)
