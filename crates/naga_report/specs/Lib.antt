-- To read first:
-- Run.Reports: the bytes of the writer grew by a report on the bytes of the reader
-- Run.BeginsReport: the bytes of the writer grew by a beginning of a report
-- Report.IsReport: which texts are reports on an input; it rests on naga_text's IsText and IsFirstUnreadable
-- Report.IsReportOn: which texts are reports on what a readable input says; it rests on naga_valid's IsAccepted and
-- Refuses
-- Report.accepted_text, refused_text, unreadable_text: the bytes of each kind of report
-- Run.status_of: the exit status
pub mod Report
pub mod Run
