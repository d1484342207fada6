-- The byte model of the listing's stream gives the listing's answers and replies, and ends in its state.
use mathlib.Core.Path.{◌≡◌, refl}
use mathlib.Core.List.{flatten}
use Rattle.lists.specs.Lists.{among, up_to, every, eq_bytes, pad_to, first_place, first_from}
use Rattle.wire.specs.Integer.{encode_int, encode_rest, read_int, read_first, with_later, later_bytes, before, weighted, fitting}
use Rattle.wire.specs.Number.{read_number, number_of, encode_number}
use Rattle.store.specs.Limits.{is_plain, plain_name, key_kind, key_length_ok, data_types_ok, present, is_rate, is_wide, width_of, integers_of, slots_for, slot_types, rate_types}
use Rattle.store.specs.Store as st
use Rattle.handshake.specs.Bytes as hb
use Rattle.handshake.specs.Handshake as hs
use Rattle.frame.specs.Frame.{judge_frame, with_header, with_length, header_of}
use Rattle.session.specs.Session as se
use Rattle.opening.specs.Opening.{answerer, opened, new_connection}
use Rattle.body.specs.Fields as fi
use Rattle.body.specs.Bodies as bo
use Rattle.store.specs.Places.{free_of, place_of}
use Rattle.message.specs.Changes.{no_change, table_change, entry_change, changed}
use Rattle.message.specs.Targets.{keyed_as, goes_to}
use Rattle.message.specs.Effects as ef
use Rattle.streams.specs.Model.{bytes, feed_all}
use Rattle.streams.specs.Calls.{result_of}
use Rattle.reassembly.specs.Judge.{hello_judged, frame_judged, asks_none, judge_bytes, done_of, judge}
use Rattle.receiver.specs.Model.{held_by, joined, feed}
use Rattle.receiver.specs.Demand3.{model_ran}
use Rattle.worked_cases.specs.Cases.{hello, east, west}
use Rattle.worked_cases.specs.Listing.{listing, listed, listed_tables, listed_entries, listed_store, listed_connection, listed_state, listed_result}

pub listing-holds : result_of (model_ran (opened answerer east west) st.empty_store (bytes listing)) ≡ listed_result
unfolding up_to is_plain plain_name every eq_bytes pad_to first_place first_from encode_int encode_rest read_int read_first with_later later_bytes before weighted fitting read_number number_of encode_number key_kind key_length_ok data_types_ok present is_rate is_wide width_of integers_of slots_for slot_types among rate_types st.table_held st.entry_held st.table_free st.entry_free st.name_of st.key_of st.table_named st.entry_of st.entry_keyed st.find_table st.find_entry st.free_table st.free_entry st.time_left st.make_entry st.make_table st.owned_by st.count_of st.counts_of st.with_entries st.put_table st.put_entry st.no_table st.no_entry st.empty_store hb.one_of hb.within hb.decimal_in hb.decimal hb.read_digits hs.greeting hs.version20 hs.version21 hs.space hs.lf hs.line_in hs.line_at hs.span hs.until_space hs.word hs.after_word hs.part_b hs.number_b hs.numbers_b hs.greets hs.judge_names hs.judge_numbers hs.judge_third hs.judge_lines hs.from_third hs.from_second hs.from_first hs.judge_hello hs.status_line hs.hello_reply judge_frame with_header with_length header_of se.unfinished se.is_closed se.local_name se.remote_name se.no_binding se.binding_at se.is_bound se.is_updated se.bound_to se.find_bound se.holding se.establish se.with_tables se.current_of se.rebind se.make_current se.unbind se.bind_to se.rebind_from se.bind se.commit_to se.committed opened new_connection fi.tested fi.integer fi.between fi.integer_of fi.for_each fi.span_in fi.bytes fi.number_read fi.number4 fi.field_read fi.server_id bo.named_fields bo.name_field bo.is_key_type bo.shape_fields bo.pair_field bo.period_field bo.times_there bo.times_fields bo.rest_fields bo.definition_fields bo.string_field bo.key_field bo.server_field bo.slot_field bo.data_fields bo.entry_fields bo.number_or bo.time_mark bo.timed_fields bo.update_fields bo.form_of ef.note ef.fields_then ef.control_answer ef.control_reply ef.control ef.defined_table ef.define_at ef.define_new ef.agrees ef.define_named ef.definition ef.acknowledge ef.updated_entry ef.commit_at ef.commit_entry ef.done ef.refusal ef.with_fields ef.following_id ef.update_of ef.update ef.other_message ef.by_form ef.stick_table free_of place_of no_change table_change entry_change changed keyed_as goes_to feed_all held_by hello_judged frame_judged asks_none judge_bytes done_of judge joined feed model_ran hello east west flatten listing listed listed_tables listed_entries listed_store listed_connection listed_state listed_result
listing-holds = refl
