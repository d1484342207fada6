-- Every case of the table holds.
use mathlib.Core.Path.{◌≡◌, refl}
use mathlib.Core.Bool.{true}
use Rattle.lists.specs.Lists.{every, eq_bytes, pad_to}
use Rattle.wire.specs.Integer.{encode_int, encode_rest, read_int, read_first, with_later, later_bytes, before, weighted, fitting}
use Rattle.wire.specs.Server.{server_word, server_id_of, read_server_id, server_of, server_before}
use Rattle.store.specs.Store.{empty_store}
use Rattle.handshake.specs.Bytes as hb
use Rattle.handshake.specs.Handshake as hs
use Rattle.frame.specs.Frame.{judge_frame, with_header, with_length, header_of}
use Rattle.session.specs.Answers.{answer_number, refusal_reply, is_size_limit, is_protocol_error}
use Rattle.session.specs.Session.{unfinished, is_closed, local_name, remote_name, establish, holding, closed_with}
use Rattle.opening.specs.Opening.{opened, new_connection}
use Rattle.message.specs.Changes.{no_change, changed}
use Rattle.message.specs.Effects.{refuse_with, refuse, refusal, note, skipped, other_message, by_form, stick_table, update, done}
use Rattle.body.specs.Bodies.{form_of}
use Rattle.streams.specs.Model.{feed_all}
use Rattle.reassembly.specs.Judge.{hello_judged, frame_judged, asks_none, judge_bytes, done_of, judge}
use Rattle.receiver.specs.Model.{held_by, joined, feed}
use Rattle.receiver.specs.Demand3.{model_ran}
use Rattle.worked_cases.specs.Cases.{cases, holds, hello, east, west, after_hello, is_value, is_overflow, is_server, last_reply}

pub cases-hold : every holds cases ≡ true
unfolding every eq_bytes pad_to encode_int encode_rest read_int read_first with_later later_bytes before weighted fitting server_word server_id_of read_server_id server_of server_before empty_store hb.one_of hb.within hb.decimal_in hb.decimal hb.read_digits hs.greeting hs.version20 hs.version21 hs.space hs.lf hs.line_in hs.line_at hs.span hs.until_space hs.word hs.after_word hs.part_b hs.number_b hs.numbers_b hs.greets hs.judge_names hs.judge_numbers hs.judge_third hs.judge_lines hs.from_third hs.from_second hs.from_first hs.judge_hello hs.status_line hs.hello_reply hs.refusal_line judge_frame with_header with_length header_of answer_number refusal_reply is_size_limit is_protocol_error unfinished is_closed local_name remote_name establish holding closed_with opened new_connection no_change changed refuse_with refuse refusal note skipped form_of other_message by_form stick_table update done feed_all held_by hello_judged frame_judged asks_none judge_bytes done_of judge joined feed model_ran cases holds hello east west after_hello is_value is_overflow is_server last_reply
cases-hold = refl
