mod Asking
mod OneMeeting
mod SomeMeeting
