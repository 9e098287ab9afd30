use Rattle.std.proofs.Common.{refl, string_bytes}
use Rattle.ocm_dav_pages.specs.Multistatus.{behind}
use Rattle.ocm_dav_pages.proofs.Responses.{added-three}
use Rattle.ocm_dav_pages.proofs.multistatus.add_behind.Goals as goal

pub returns-in_ok-push_str-in-Some-2 : goal.returns-in_ok-push_str-in-Some-2
unfolding behind
returns-in_ok-push_str-in-Some-2 c =
    rw (c.in-Some.is, c.in_ok-push_str-in-Some-2.ensures.bytes, c.in_ok-write-in-Some.ensures.bytes, c.in_ok-push_str-in-Some.ensures.bytes)
    (added-three (string_bytes c.args.text.now) _ _ _)

pub returns-in_ok-push_str-in-None : goal.returns-in_ok-push_str-in-None
unfolding behind
returns-in_ok-push_str-in-None c = rw (c.in-None.is, c.in_ok-push_str-in-None.ensures.bytes) refl
