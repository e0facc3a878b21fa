use Rattle.std.proofs.Common.{◌≡◌, [], ◌∷◌, ◌++◌, length, map, ap, ◌∙◌}
use Rattle.std.specs.List.{concat}
use Rattle.std.specs.Int.{w16, w64, to_be_bytes}
use Rattle.epic_cmac.specs.Cmac.{cmac}
use Rattle.epic_cmac.specs.Pieces.{Fed}
use Rattle.epic_num.specs.BigEndian.{u16_bytes, u64_bytes}
use Rattle.epic_num.specs.Levels.{width_of}
use Rattle.epic_num.specs.Messages.{dest_domain, host_bytes}
use Rattle.epic_layout.specs.Contents.{shape, field_bytes}
use Rattle.epic_layout.specs.Spelling.{dest_message, path_bytes}
use Rattle.epic_layout.proofs.Offsets.{width_most}
use Rattle.epic_fields.specs.Formulas.{dest_tag}
use Rattle.epic_fields.proofs.FedLemmas.{All-bounded, fed, fed_twice}
use Rattle.epic_fields.proofs.destination.dest_tag_by.Goals as goal

pub feed_updates-requires : goal.feed_updates-requires
feed_updates-requires c =
    All-bounded (λ u. u.width) (width_of c.args.packet.now.first) 6 c.args.updates.now (width_most c.args.packet.now.first) c.requires.widths

pub returns : goal.returns
unfolding dest_tag dest_message u16_bytes u64_bytes shape
returns c =
    let p = c.args.packet.now in
    let start : Fed = record { key = c.args.key.now; message = [] } in
    let s1 = c.update.new.self in
    let s2 = c.update-2.new.self in
    let s3 = c.feed_host.new.state in
    let s4 = c.feed_host-2.new.state in
    let s5 = c.feed_path.new.state in
    let s6 = c.feed_updates.new.state in
    let s7 = c.update-3.new.self in
    let s8 = c.update-4.new.self in
    let updates = concat (map field_bytes c.args.updates.now) in
    let size = to_be_bytes w16 (length p.payload) in
    let t7 : s8 ≡ fed s6 (size ++ p.payload) =
    fed_twice s6 s7 s8 size p.payload
    (c.update-3.ensures ∙ ap (fed s6) (c.to_be_bytes-2.ensures ∙ ap (λ s. to_be_bytes w16 s.payload) c.shape.ensures.shape))
    (c.update-4.ensures ∙ ap (fed s7) c.payload.ensures) in
    let t6 = fed_twice s5 s6 s8 updates (size ++ p.payload) c.feed_updates.ensures t7 in
    let t5 = fed_twice s4 s5 s8 (path_bytes p.route) (updates ++ (size ++ p.payload)) c.feed_path.ensures t6 in
    let t4 = fed_twice s3 s4 s8 (host_bytes p.dst) (path_bytes p.route ++ (updates ++ (size ++ p.payload)))
    (c.feed_host-2.ensures ∙ ap (λ h. fed s3 (host_bytes h)) c.dst.ensures) t5 in
    let t3 = fed_twice s2 s3 s8 (host_bytes p.src) (host_bytes p.dst ++ (path_bytes p.route ++ (updates ++ (size ++ p.payload))))
    (c.feed_host.ensures ∙ ap (λ h. fed s2 (host_bytes h)) c.src.ensures) t4 in
    let t2 = fed_twice s1 s2 s8 (to_be_bytes w64 p.ts) (host_bytes p.src ++ (host_bytes p.dst ++ (path_bytes p.route ++ (updates ++ (size ++ p.payload)))))
    (c.update-2.ensures ∙ ap (fed s1) (c.to_be_bytes.ensures ∙ ap (to_be_bytes w64) c.ts.ensures)) t3 in
    let first : s1 ≡ fed start (dest_domain p.first ∷ []) =
    c.update.ensures
    ∙ (ap (λ s. fed s (c.dest_domain.result ∷ [])) c.start-state.ensures
    ∙ ap (λ b. fed start (b ∷ [])) (c.dest_domain.ensures ∙ ap dest_domain c.first_byte.ensures)) in
    let t1 = fed_twice start s1 s8 (dest_domain p.first ∷ [])
    (to_be_bytes w64 p.ts ++ (host_bytes p.src ++ (host_bytes p.dst ++ (path_bytes p.route ++ (updates ++ (size ++ p.payload)))))) first t2 in
    c.finish.ensures ∙ ap (λ s. cmac s.key s.message) t1
