mod Rows
mod Loading
mod Standings
mod Judging
mod Asking
mod Marks
mod Saying
mod Histories
